-- The definitions that contracts cite.
pub mod Words
pub mod Ranges
pub mod Laws
