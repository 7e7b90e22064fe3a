-- What is known on the way.
pub mod Phases
