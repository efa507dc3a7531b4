-- The definitions that the contracts cite.
pub mod Sorted
pub mod Near
