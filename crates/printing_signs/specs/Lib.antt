-- The small texts of a formula.
pub mod Relations
