pub mod Mail
mod Acting
mod Working
