pub mod Paths
pub mod Kept
pub mod Laws
