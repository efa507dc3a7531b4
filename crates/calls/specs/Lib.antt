-- The definitions that the contracts cite.
pub mod Inputs
pub mod Same
pub mod Turns
