-- The definitions that the contracts cite.
pub mod Lines
pub mod Replays
pub mod Print
pub mod Runs
