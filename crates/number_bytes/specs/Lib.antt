-- Numbers of some bytes, and which numbers bytes hold; whether bytes are the same.
pub mod Numbers
pub mod Ranges
pub mod Same
pub mod Widths
