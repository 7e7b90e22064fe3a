-- The shortened table, and the stages to it.
pub mod Table
pub mod Written
pub mod Arrays
