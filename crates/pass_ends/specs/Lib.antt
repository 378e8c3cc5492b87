pub mod Passes
pub mod Ends
pub mod Left
pub mod Bests
