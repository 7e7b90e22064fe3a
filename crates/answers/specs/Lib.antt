-- Answers, and results that are refused or accepted.
pub mod Answers
pub mod Refusals
