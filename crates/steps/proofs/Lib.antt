-- Laws of one entry of a branch.
pub mod Stepping
