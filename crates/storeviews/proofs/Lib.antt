pub mod Levels
pub mod Listing
pub mod Copying
pub mod Places
pub mod Bringing
