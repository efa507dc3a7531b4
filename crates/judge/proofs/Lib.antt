-- Laws that the proofs of more than one function, or of other crates, cite.
pub mod Ways
pub mod Few
pub mod Unheard
pub mod Distances
pub mod Cases
