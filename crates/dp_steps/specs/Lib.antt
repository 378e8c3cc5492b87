pub mod States
pub mod Bounds
pub mod Lists
pub mod Faults
