-- What is taken of an entry, and the open branches.
pub mod Outline
pub mod Stack
