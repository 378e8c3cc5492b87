pub mod Written
pub mod Makes
