-- Each way through the search.
pub mod Searches
pub mod NewCloses
pub mod Depths
