pub mod Names
pub mod Mails
pub mod Steps
pub mod Ends
