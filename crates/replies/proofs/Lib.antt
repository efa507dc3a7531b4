-- Laws that the proofs of other crates cite.
pub mod Told
