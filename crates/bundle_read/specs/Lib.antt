-- Reading a bundle: the contracts.
pub mod Promises
pub mod Store
