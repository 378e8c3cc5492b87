pub mod Layers
pub mod Outgoing
pub mod Offers
pub mod Floors
pub mod Stands
pub mod Calls
