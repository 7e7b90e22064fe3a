-- Writing the parts of a formula.
pub mod Writing
