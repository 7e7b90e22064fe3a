-- Constraints turned.
pub mod Turned
