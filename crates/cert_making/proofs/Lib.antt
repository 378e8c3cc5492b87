pub mod Texts
pub mod Named
pub mod Turns
pub mod Wholes
pub mod Logged
pub mod Starts
