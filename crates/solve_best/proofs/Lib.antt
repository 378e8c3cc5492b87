pub mod AtTarget
pub mod Pairs
pub mod Searched
pub mod Told
