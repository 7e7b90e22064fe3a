-- Lines out of bundles, and the check that is begun.
pub mod Load
pub mod Both
pub mod Begun
