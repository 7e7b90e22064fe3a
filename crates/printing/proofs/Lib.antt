-- What a printed formula means, that its text reads back, and what an accepted print is worth.
pub mod Meaning
pub mod Decimal
pub mod Unique
pub mod Exact
pub mod Back
pub mod ReadOverK
pub mod Worded
pub mod WordsUnique
pub mod WordsBack
pub mod Named
pub mod Accepted
pub mod Stages
