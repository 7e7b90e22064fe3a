-- What a tag and a length tell of an entry, and fields compared one after the other.
pub mod SameFields
pub mod ByTag
