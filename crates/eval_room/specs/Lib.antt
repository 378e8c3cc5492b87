pub mod Fits
pub mod Needs
