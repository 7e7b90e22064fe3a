-- Each way through printing a file.
pub mod Phases
