pub mod Players
pub mod Away
pub mod Seats
