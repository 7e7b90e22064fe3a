-- How a table begins.
pub mod Finding
