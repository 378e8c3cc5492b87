pub mod Opening
pub mod Outgoing
pub mod Stands
pub mod Calls
