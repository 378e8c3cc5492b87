pub mod Batches
pub mod Skips
pub mod Limits
pub mod Stops
pub mod Cases
