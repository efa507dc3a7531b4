-- Lemmas that the proofs share: the order of floats.
pub mod Order
pub mod Counted
