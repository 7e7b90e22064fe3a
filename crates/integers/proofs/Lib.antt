-- The laws of ℤ that the library lacks, and the machine's tests of signed numbers.
pub mod Differences
pub mod Ring
pub mod RingLaws
pub mod Divisibility
pub mod Magnitude
pub mod Remainders
pub mod Machine
