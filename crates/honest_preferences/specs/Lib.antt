pub mod Leaving
pub mod Signs
pub mod Answering
pub mod Parts
pub mod Sides
pub mod Easing
pub mod Effects
pub mod Switches
