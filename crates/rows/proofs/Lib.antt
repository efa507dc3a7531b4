-- Laws that the proofs of more than one function, or of other crates, cite.
pub mod Scans
pub mod Chains
pub mod Looks
pub mod Making
pub mod Passed
