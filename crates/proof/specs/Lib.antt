-- Checking a proof: its entries, the rows, the branches, the whole; and what the editions change.
pub mod Entries
pub mod Rows
pub mod Check
pub mod Tree
pub mod Layout
pub mod Editions
pub mod Stages
pub mod Promises
