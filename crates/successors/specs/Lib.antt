pub mod Answers
pub mod Batches
pub mod Candidates
pub mod Searches
pub mod Visits
pub mod Starts
pub mod Switches
