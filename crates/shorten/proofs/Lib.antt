-- Each way through the operation.
pub mod Accepting
