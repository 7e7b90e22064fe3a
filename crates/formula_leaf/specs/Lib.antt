-- Leaves of a formula, and truths as bits.
pub mod Leaves
pub mod Masks
