-- A formula as the code reads it.
pub mod Judging
pub mod Nodes
