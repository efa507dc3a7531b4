-- Laws that the proofs of more than one function cite.
pub mod Counts
pub mod Marked
pub mod Rows
pub mod Window
