pub mod Passes
pub mod Lefts
pub mod Announcements
