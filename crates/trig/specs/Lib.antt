-- Document 01, 'Ticks, plane and sphere', its first two paragraphs, and `Value`, which reads the code's signed numbers.
pub mod Ticks
pub mod Series
pub mod Angle
pub mod Value
