-- Entries as the code reads them.
pub mod Entries
