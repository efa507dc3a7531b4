-- Laws that the proofs of more than one function cite.
pub mod Sorted
pub mod Found
pub mod Judged
