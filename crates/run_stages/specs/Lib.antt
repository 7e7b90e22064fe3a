-- The contracts of reading the stages, and what they are once they are read.
pub mod Staged
pub mod Reading
