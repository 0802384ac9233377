pub mod Fates
pub mod Sending
