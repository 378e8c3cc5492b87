pub mod Letters
pub mod Delivery
pub mod Settling
