pub mod Lines
pub mod Parents
pub mod Parts
pub mod Places
