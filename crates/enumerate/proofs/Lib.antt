-- Each way through the operation that gives the next short proof.
pub mod Answering
