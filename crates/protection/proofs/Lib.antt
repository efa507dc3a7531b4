-- The theorem that a receiver keeps its verdict whatever the others sent, and what it stands on.
pub mod Alone
pub mod Held
pub mod Lru
pub mod Runs
pub mod Counters
pub mod Machines
pub mod Cards
pub mod Promised
pub mod Pushed
pub mod Facts
pub mod Sheet
