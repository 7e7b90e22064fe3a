-- Laws of runs that are read and written in parts.
pub mod Putting
pub mod Storing
