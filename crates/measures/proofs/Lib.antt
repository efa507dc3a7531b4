-- Lemmas that the proofs share: floats brought to whole numbers.
pub mod Scaled
pub mod Digits
pub mod Tests
pub mod Ticks
pub mod Quotient
pub mod Patterns
