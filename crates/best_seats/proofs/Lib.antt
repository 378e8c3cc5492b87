pub mod Letters
pub mod Sitting
