-- Laws that the proofs of more than one function cite.
pub mod Passes
pub mod Words
