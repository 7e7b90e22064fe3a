-- What a field states, entry by entry.
pub mod Reading
