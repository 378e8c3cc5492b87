pub mod Sums
pub mod Scratches
pub mod Held
pub mod Rows
pub mod Plain
