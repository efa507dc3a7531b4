-- The definitions that contracts cite.
pub mod Ends
pub mod Scan
