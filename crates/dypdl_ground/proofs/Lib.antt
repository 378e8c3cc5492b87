pub mod Ranges
pub mod Lengths
