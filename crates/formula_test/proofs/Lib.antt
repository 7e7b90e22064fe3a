-- Each way through a test.
pub mod Registers
pub mod Phases
