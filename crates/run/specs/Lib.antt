-- Guards for a whole run of stages: the operation, what its files certify, and how it refuses.
pub mod Uniform
pub mod Run
pub mod Layout
pub mod Refused
pub mod Promises
pub mod Tables
pub mod Ordered
