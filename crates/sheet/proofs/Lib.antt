-- The proved sheet of document 01.
pub mod Sheet
