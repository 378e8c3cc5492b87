pub mod Grounds
pub mod Counts
pub mod Ends
