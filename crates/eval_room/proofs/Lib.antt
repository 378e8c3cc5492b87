pub mod Wholes
pub mod Lists
