-- Laws that the proofs of more than one function, or of other crates, cite.
pub mod Waiting
