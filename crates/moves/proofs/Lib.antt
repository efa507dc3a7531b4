-- Laws that the proofs of more than one function, or of other crates, cite.
pub mod Looked
pub mod Steps
pub mod Entries
pub mod Making
