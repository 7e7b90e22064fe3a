-- Showing a constraint: the contracts.
pub mod Locate
pub mod Promises
pub mod Copied
