-- All short proofs of two bundles: the set, its order, the set as a sequence, the next one; what is promised of them; the wording for the code.
pub mod ShortProofs
pub mod Order
pub mod Sequence
pub mod Next
pub mod Enumerates
pub mod Promises
pub mod Tables
pub mod Numbering
pub mod Search
