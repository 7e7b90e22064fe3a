-- The sequence evaluated; it has the short proofs and no others, in order; the next one; refusals.
pub mod Stages
pub mod Members
pub mod Bytes
pub mod Branches
pub mod Accepted
pub mod Written
pub mod Listed
pub mod Ordered
pub mod Next
pub mod Reachable
pub mod Enumerates
pub mod One
pub mod Refusals
pub mod Numbered
pub mod Searched
pub mod FoundFile
pub mod Called
