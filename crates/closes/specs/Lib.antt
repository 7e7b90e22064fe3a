-- The contracts of the functions that close a branch.
pub mod Closing
pub mod Striding
pub mod Ends
