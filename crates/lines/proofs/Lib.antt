-- The laws of the lines in a buffer, and what the proofs of the functions share.
pub mod Parts
pub mod Lines
pub mod Range
pub mod Mixing
pub mod Raising
pub mod Branch
pub mod Starting
pub mod Negating
pub mod StartLines
pub mod Fill
pub mod Every
pub mod Narrow
pub mod Keeping
pub mod KindBytes
pub mod Tests
pub mod Summing
