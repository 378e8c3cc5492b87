pub mod Steps
pub mod Forall
pub mod Cells
pub mod Ascending
pub mod Held
pub mod Fits
pub mod ReadFits
pub mod Overwrites
