-- The rows gathered and marked.
pub mod Reported
pub mod Gathering
pub mod Marking
