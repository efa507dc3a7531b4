-- Lemmas that the proofs share.
-- a float beside zero
pub mod Signs
-- the whole square root, and the correctly rounded one
pub mod Newton
pub mod Whole
pub mod Guessed
pub mod Units
pub mod Pattern
pub mod Shifted
pub mod Value
pub mod Nearest
