pub mod Steps
pub mod Trees
pub mod Meanings
pub mod Sound
pub mod Numbers
pub mod Sets
pub mod Conditions
pub mod Typed
