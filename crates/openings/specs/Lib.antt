-- The rows that open branches.
pub mod Opening
pub mod Splitting
