-- What the stages of the operation ask.
pub mod Limits
