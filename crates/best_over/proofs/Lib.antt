pub mod Places
pub mod Telling
pub mod Starting
pub mod Running
