pub mod Records
pub mod Counted
pub mod Ongoing
pub mod Announcing
