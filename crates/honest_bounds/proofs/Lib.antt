pub mod Bears
pub mod Narrowing
pub mod Proved
