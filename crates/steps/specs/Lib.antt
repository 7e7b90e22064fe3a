-- One entry of a branch.
pub mod Steps
