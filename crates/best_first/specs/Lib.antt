pub mod Mails
pub mod Crews
pub mod Rooms
pub mod Stages
pub mod Alone
