pub mod ViewSums
pub mod Words
pub mod Keeps
