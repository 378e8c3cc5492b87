pub mod Bytes
pub mod Lines
pub mod Faults
pub mod Scan
