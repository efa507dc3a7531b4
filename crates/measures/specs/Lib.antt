-- What the crate computes in f64, from document 01. Each file has its sentences in 01's order.
pub mod Degrees
pub mod Steps
