-- Laws that the proofs of the functions cite: rows by number and their bytes, rows told by their bytes, rows applied, closes in turn, tables written; how many proofs of three rows there are, and the call for the next proof in directed cases, which are evaluated here and not in `enumeration`, where each edit would pay for them.
pub mod Counts
pub mod Stored
pub mod RecognisedRows
pub mod Inferred
pub mod Numbers
pub mod FoundRows
pub mod Closes
pub mod DeliveredTables
pub mod NextCases
pub mod ThreeRows
