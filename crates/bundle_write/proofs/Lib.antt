-- What is written, by the definition.
pub mod Putting
pub mod Writing
