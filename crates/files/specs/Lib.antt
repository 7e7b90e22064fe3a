-- Text in a lent buffer.
pub mod Counts
pub mod Digits
pub mod Text
