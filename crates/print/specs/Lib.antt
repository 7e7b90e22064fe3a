-- The stages of printing a file.
pub mod Phases
