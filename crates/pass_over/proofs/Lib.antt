pub mod Places
pub mod Starting
pub mod Telling
pub mod Running
pub mod Looked
