-- Laws that the proofs of more than one function, or of other crates, cite.
pub mod Writing
pub mod Lengths
pub mod Telling
