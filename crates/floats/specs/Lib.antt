-- What the crate computes in f64, from document 01, its sentences in 01's order.
pub mod Horizon
pub mod Rooted
