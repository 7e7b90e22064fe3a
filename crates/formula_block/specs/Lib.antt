-- A formula judged at a block of vectors.
pub mod Blocks
