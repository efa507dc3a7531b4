-- The definitions that the contracts cite.
pub mod Reading
pub mod Fields
