-- Laws of the tests.
pub mod Merging
pub mod First
pub mod Ranging
