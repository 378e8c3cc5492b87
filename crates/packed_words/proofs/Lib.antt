pub mod Marks
pub mod OneWord
pub mod Shown
pub mod Nexts
pub mod Packs
pub mod OnePass
pub mod Firsts
