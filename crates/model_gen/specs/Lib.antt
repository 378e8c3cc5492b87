pub mod Draws
pub mod Kinds
pub mod Texts
