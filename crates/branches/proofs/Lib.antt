-- Laws that the proofs of the functions cite: each way through a function as a lemma over plain values.
pub mod Spare
pub mod EntriesLoop
pub mod BranchStops
pub mod JoinedClosings
pub mod OpenedBranches
pub mod Rounds
pub mod Splits
