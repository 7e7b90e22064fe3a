-- A bundle as the code goes over it.
pub mod Scan
