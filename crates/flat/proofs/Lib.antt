-- Laws that the proofs of more than one function, or of other crates, cite.
pub mod Opening
pub mod Closing
pub mod Returns
pub mod Rows
pub mod Closed
