-- The value of a form, also in words.
pub mod FormAt
pub mod Quick
pub mod Registers
