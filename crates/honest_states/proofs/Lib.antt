pub mod Lists
pub mod Knowing
pub mod Opened
pub mod Closing
pub mod Numbers
pub mod Bits
