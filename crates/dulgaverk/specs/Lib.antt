-- What functions of this crate ensure beyond the operations.
pub mod Jobs
