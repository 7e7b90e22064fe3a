-- Laws that belong to no one function: what is accepted as a bundle, that notes change nothing of it, and the round trips.
pub mod Laid
pub mod Notes
pub mod Writable
pub mod RoundTrips
pub mod Tables
pub mod Every
