pub mod Causes
pub mod Sums
pub mod Rules
pub mod Steps
pub mod Seats
