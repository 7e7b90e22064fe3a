-- The tally of a check.
pub mod Tally
