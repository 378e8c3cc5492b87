pub mod Answers
pub mod Looks
pub mod Moves
pub mod Ranges
pub mod Changes
