-- Lemmas that the proofs share.
-- the horizon
pub mod Literals
pub mod Excess
pub mod Rooted
-- worked examples of 01
pub mod Sheet
