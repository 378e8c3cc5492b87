pub mod Shows
pub mod Bits
pub mod Parts
pub mod Totals
