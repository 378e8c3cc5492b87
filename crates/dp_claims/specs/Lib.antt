pub mod Dominance
pub mod Honest
pub mod Enough
pub mod Laws
