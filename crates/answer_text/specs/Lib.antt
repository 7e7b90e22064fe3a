-- The lines that a program prints of an answer.
pub mod Lines
