-- The rows that make a line, and claims.
pub mod Rows
pub mod Claims
