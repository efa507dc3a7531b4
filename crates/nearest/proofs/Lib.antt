-- Laws that the proofs of more than one function cite, and laws of what is said.
pub mod Sums
pub mod Steps
pub mod Gathered
pub mod Two
pub mod Answers
pub mod Said
pub mod Cases
