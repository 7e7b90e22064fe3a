-- What is printed is what was answered.
pub mod Printing
