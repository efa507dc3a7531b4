-- The definitions that contracts and theorems cite.
pub mod Machine
pub mod Refusals
pub mod Rows
pub mod Questions
pub mod Walk
pub mod Watch
