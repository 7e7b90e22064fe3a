-- The lines of a cut, and one cut; all cuts, from the last down; the guards' files in the output, and the operation step by step.
pub mod CutLines
pub mod OneCut
pub mod AllCuts
pub mod GuardFiles
pub mod Phases
