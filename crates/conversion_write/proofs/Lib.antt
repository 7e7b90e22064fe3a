-- Laws of the bytes written.
pub mod Putting
