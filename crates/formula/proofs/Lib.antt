-- Laws that belong to no one function: what is written is read again, a tested formula is true, notes change nothing, and what a list's test gives.
mod Fronts
pub mod RoundTrip
pub mod Notes
pub mod Judge
pub mod Tables
pub mod TestList
