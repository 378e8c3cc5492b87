pub mod Words
pub mod Named
pub mod Said
pub mod Texts
pub mod ReadBack
pub mod LineNumbers
