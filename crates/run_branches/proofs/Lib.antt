-- A branch and its own fields; a walk's end apart from these; a branch's entries; the branches of a step; how many fields there may be.
pub mod OwnFields
pub mod WalkEnds
pub mod EntriesLoop
pub mod BranchByBranch
pub mod BranchesLoop
pub mod FieldsByBytes
