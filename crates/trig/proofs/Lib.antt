-- Laws that the proofs of more than one function cite.
pub mod Signs
pub mod Sizes
pub mod Sums
pub mod Turns
