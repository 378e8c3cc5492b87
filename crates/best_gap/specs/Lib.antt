pub mod Frontiers
pub mod Laws
pub mod Worked
