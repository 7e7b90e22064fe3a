-- What is shown, by the definition.
pub mod Showing
