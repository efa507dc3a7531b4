-- Laws that the proofs of more than one function, or of other crates, cite.
pub mod Runs
pub mod Keys
pub mod Tests
pub mod Lengths
pub mod Returns
pub mod Closed
