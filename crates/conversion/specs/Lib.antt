-- Turning into the other edition.
pub mod Turning
pub mod Turnable
pub mod Widest
pub mod Promises
pub mod Tables
