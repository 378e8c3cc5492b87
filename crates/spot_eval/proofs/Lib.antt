pub mod Members
pub mod Grounds
pub mod Limits
pub mod Ranges
pub mod Next
pub mod Overrides
