-- Testing a formula: the contract.
pub mod Outcomes
pub mod Promises
pub mod Values
