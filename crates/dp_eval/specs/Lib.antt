pub mod Answers
pub mod Places
pub mod Terms
pub mod Totals
pub mod Fits
pub mod Members
pub mod Operands
