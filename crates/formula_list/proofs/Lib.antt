-- Laws of the stages of testing a list.
pub mod Phases
pub mod ValuesInRange
