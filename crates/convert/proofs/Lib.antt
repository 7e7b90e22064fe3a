-- Each way through turning.
pub mod Constraints
pub mod Other
pub mod Phases
