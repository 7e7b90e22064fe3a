-- Laws of loading, and of the check up to there.
pub mod Loading
pub mod Preparing
pub mod Phases
