-- The pieces of a formula's text, and what reading it and putting them leaves.
pub mod Pieces
pub mod Printing
pub mod Reaching
