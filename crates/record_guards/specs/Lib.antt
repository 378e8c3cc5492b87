pub mod Records
pub mod Bounds
pub mod Settled
pub mod Announced
