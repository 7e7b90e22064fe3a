-- Laws of the value of a form, also in words.
pub mod Quick
pub mod Value
pub mod Words
