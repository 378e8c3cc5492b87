pub mod Called
pub mod Mail
pub mod Acting
pub mod Working
