-- The contracts of one cut's functions, of all cuts together, and of the end of the operation.
pub mod Cuts
pub mod All
pub mod Phases
pub mod Writing
