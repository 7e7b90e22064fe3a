-- Testing a formula at a list of vectors: the contract.
pub mod Promises
pub mod Phases
