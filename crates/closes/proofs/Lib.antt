-- Laws that the proofs of the functions cite: each way through a function as a lemma over plain values.
pub mod NumberTests
pub mod StrideTests
pub mod Ending
