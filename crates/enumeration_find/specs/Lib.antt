-- What is found for a table.
pub mod Finding
