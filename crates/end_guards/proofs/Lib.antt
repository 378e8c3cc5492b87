pub mod Boards
pub mod Ends
pub mod Layers
pub mod Visits
