-- The definitions that contracts and theorems cite.
pub mod Turn
pub mod Round
pub mod Passes
