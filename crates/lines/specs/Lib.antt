-- The lines of a branch in a flat buffer.
pub mod Parts
pub mod Buffer
pub mod Ready
