-- Laws that the proofs of more than one function, or of other crates, cite.
pub mod Numbers
pub mod Round
pub mod Laws
pub mod Passes
pub mod Entry
