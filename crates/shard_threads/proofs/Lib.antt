pub mod Places
pub mod Staying
pub mod Parting
pub mod Seating
