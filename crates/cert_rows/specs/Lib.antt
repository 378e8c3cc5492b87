pub mod Rows
pub mod Laws
pub mod Making
pub mod Faults
