-- Laws of numbers as bytes, and of bytes compared.
pub mod Comparing
pub mod Digits
pub mod Signed
pub mod Stores
pub mod Turned
pub mod Widths
