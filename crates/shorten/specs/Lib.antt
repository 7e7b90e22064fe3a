-- What the operation knows on the way.
pub mod Phases
