-- The guards of a run form a chain.
pub mod Trees
pub mod Grown
pub mod Links
pub mod Chain
pub mod Run
pub mod Unlike
