-- Laws of the tally.
pub mod Counted
