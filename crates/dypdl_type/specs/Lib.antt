pub mod Typing
pub mod Forms
pub mod Fitting
