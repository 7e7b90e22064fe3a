-- What is promised of roundings, editions, turning, reduced stride parts, lists, positions in the tree, registers in another sequence, and what a run tells, holds of the operations.
pub mod Meant
pub mod Rounding
pub mod BundleRefusals
pub mod Editions
pub mod AsCheck
pub mod Outside
pub mod Overflow
pub mod Checked
pub mod Turnable
pub mod TurnedDown
pub mod Conversion
pub mod Reduced
pub mod TestList
pub mod Quick
pub mod Tree
pub mod Reordering
pub mod RunTells
