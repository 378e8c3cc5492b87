pub mod Numerals
pub mod Simple
pub mod Faults
pub mod Searches
