pub mod Envelopes
pub mod Turners
pub mod Works
pub mod Plays
