-- The contracts: what an entry is to the walk, and fields compared.
pub mod Spans
pub mod Same
pub mod Kinds
