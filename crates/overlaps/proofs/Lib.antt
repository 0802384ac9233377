pub mod Sharing
pub mod Halves
pub mod Places
pub mod Ordered
pub mod Changed
pub mod Refusing
