-- What the output gets, by the definition.
pub mod Delivering
