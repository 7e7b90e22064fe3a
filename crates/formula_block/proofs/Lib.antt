-- Laws of blocks: the truths of one, and of all.
pub mod Blocks
pub mod Judging
