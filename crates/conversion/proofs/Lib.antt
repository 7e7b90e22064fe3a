-- What turning keeps.
pub mod Tables
pub mod Asking
pub mod Bundles
pub mod Carried
pub mod Proofs
pub mod Narrow
pub mod First
