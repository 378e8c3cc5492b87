pub mod TokenSteps
pub mod ReadSteps
pub mod Unique
pub mod Whole
pub mod OneAtLeast
