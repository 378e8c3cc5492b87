pub mod Best
pub mod Founds
pub mod Drops
pub mod Endings
