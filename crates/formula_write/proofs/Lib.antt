-- What is written of a formula, by the definition.
pub mod Written
pub mod Storing
pub mod Templates
