-- The rows gathered and marked.
pub mod Gathered
pub mod Marks
