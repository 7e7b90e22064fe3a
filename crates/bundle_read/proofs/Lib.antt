-- What is stored, by the definition.
pub mod Reading
pub mod Storing
