-- Document 01, 'Ticks, plane and sphere', from its third paragraph on, a file for each and in its order. The first two are in `trig`.
pub mod Plane
pub mod Sphere
pub mod Bearing
pub mod Place
