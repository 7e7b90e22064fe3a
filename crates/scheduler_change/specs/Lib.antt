-- What a change of the state leaves.
pub mod Changes
