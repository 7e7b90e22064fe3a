-- Constraints gone over and written, as laws over plain values.
pub mod Holding
pub mod Putting
