pub mod Statuses
pub mod Claims
