-- The definitions that the theorem cites.
pub mod Marks
pub mod Run
pub mod Card
pub mod Promise
pub mod Facts
