pub mod Firsts
pub mod Rooms
pub mod Slots
pub mod Values
