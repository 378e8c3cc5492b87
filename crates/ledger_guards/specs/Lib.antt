pub mod Shuttle
pub mod Floors
pub mod Shares
pub mod Forced
pub mod Stay
