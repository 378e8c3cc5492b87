pub mod Constraints
pub mod BaseCases
pub mod Looks
pub mod Transitions
pub mod Steps
pub mod Fates
pub mod Visits
pub mod Starts
