-- Laws of counts and of text in a lent buffer.
pub mod Counts
pub mod Texts
