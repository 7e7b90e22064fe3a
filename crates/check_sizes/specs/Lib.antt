-- The root, and a check with its arrays.
pub mod Root
pub mod Sizes
