-- The end of a check.
pub mod Output
