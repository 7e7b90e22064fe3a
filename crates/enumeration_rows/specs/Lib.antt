-- The contracts of the functions over rows by number.
pub mod Recognised
pub mod Applied
pub mod Delivered
pub mod Searching
