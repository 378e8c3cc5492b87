pub mod Law
pub mod Tables
pub mod Changes
pub mod Left
