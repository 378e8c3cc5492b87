pub mod Searches
pub mod Lefts
