-- The contracts of a branch's functions.
pub mod Spare
pub mod Branches
pub mod Branching
