-- The contracts of the walk's functions.
pub mod Branches
pub mod Walks
