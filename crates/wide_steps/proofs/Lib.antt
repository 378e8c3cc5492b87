mod Told
mod Cases
pub mod Steps
