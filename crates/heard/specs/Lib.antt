-- The definitions that contracts and theorems cite.
pub mod Heard
pub mod Answers
