-- The shortened table, row by row.
pub mod Bytes
pub mod Counting
pub mod Putting
pub mod Writing
pub mod Delivering
