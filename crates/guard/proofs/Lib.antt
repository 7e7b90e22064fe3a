-- What is loaded are the values of the file, what is printed is what testing gives at them, and one text.
pub mod Values
pub mod Printing
pub mod Shown
