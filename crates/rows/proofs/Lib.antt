-- Laws of the rows that make a line, and of claims.
pub mod NewLine
pub mod InferenceTests
pub mod Claiming
