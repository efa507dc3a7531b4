-- Laws that the proofs of more than one function cite.
pub mod Squares
pub mod Sectors
pub mod Same
