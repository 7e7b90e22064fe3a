-- Rows that nothing rests on, and the table without them.
pub mod Needed
pub mod Passes
pub mod Shorten
pub mod Stages
pub mod Promises
pub mod Promised
