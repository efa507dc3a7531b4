-- Document 01, 'Claims' and 'Against the Rust': what is asked and answered of a site in degrees.
pub mod Sites
