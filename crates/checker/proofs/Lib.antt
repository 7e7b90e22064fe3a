-- What is printed is what the check leaves, and one text; what is read of each file is enough.
pub mod Printing
pub mod Shown
pub mod Enough
