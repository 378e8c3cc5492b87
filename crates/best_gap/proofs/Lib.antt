pub mod Frontier
pub mod Backwards
pub mod Bounds
pub mod Worked
