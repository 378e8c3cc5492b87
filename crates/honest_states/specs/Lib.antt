pub mod Modes
pub mod Symbols
pub mod Facts
pub mod Bits
