-- The definitions that the contracts cite.
pub mod Digests
pub mod Lendings
pub mod Same
