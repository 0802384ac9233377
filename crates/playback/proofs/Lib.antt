pub mod Logs
pub mod Members
pub mod Sendings
pub mod Tellings
pub mod Turns
