-- Formulas: their files, and testing them, with a table.
pub mod Formula
pub mod Test
pub mod Tables
pub mod TestList
