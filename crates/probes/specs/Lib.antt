-- What the comparison runs ask that the relay does not.
pub mod Columns
pub mod Probes
pub mod Judged
