pub mod Lists
pub mod Names
pub mod Outcomes
pub mod Given
pub mod Typed
pub mod Facts
pub mod Steps
pub mod Nested
