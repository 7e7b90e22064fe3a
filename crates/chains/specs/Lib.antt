-- Guards for a run of stages, as derivations.
pub mod Runs
