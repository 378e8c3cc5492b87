pub mod Settings
pub mod Together
pub mod Meaning
pub mod Facts
pub mod Seen
