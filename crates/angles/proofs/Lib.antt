-- Laws that the proofs of more than one function cite.
pub mod Columns
pub mod Placing
pub mod Sector
pub mod Wraps
