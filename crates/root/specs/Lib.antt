-- The square root, from document 01.
pub mod Root
