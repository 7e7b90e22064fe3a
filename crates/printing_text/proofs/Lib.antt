-- Laws of texts put one after another, and of numbers in decimal.
pub mod PutsText
pub mod Numerals
