-- Runs of numbers.
pub mod Runs
