-- Laws that the proofs of more than one function cite.
pub mod Weights
pub mod Counted
pub mod Silent
pub mod Kept
pub mod Third
pub mod Typical
pub mod Left
