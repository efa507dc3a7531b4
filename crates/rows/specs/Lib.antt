-- The definitions that contracts cite.
pub mod Read
pub mod Links
pub mod Search
