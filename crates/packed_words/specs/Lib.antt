pub mod Sets
pub mod Scenes
pub mod Ranges
pub mod Places
pub mod Operands
pub mod Totals
pub mod Tables
