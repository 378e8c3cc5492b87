pub mod Kept
pub mod Sitting
