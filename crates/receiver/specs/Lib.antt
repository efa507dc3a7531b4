-- The definitions that contracts and theorems cite.
pub mod Calls
