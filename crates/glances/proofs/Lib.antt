-- Laws that the proofs of more than one function, or of other crates, cite.
pub mod Keys
pub mod Places
pub mod Stores
