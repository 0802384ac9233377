pub mod Fates
pub mod Recorded
pub mod Roles
