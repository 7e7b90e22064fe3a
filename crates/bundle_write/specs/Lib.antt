-- Writing a bundle: the contracts.
pub mod Ordered
pub mod Promises
