-- Arrays that have the room asked for.
pub mod Room
