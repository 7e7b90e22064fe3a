-- Which rows are needed is decided; the table without the others derives the same formula, and is its own shorter table.
pub mod Needed
pub mod Computed
pub mod Without
pub mod Again
pub mod Passes
pub mod OneArray
pub mod Shorter
pub mod Reports
pub mod ShorterStage
pub mod Renumbering
pub mod Filed
pub mod Unchanged
pub mod ShorterCertified
pub mod Promised
pub mod Stages
