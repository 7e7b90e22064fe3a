-- SMT-LIB terms and propositions, what they mean, their text and how it is read; a formula as a proposition; the same in words; and what printing leaves.
pub mod Smt
pub mod Text
pub mod Reading
pub mod Translation
pub mod Words
pub mod WordsText
pub mod WordsReading
pub mod Dialects
pub mod Print
pub mod Promises
pub mod OneReading
