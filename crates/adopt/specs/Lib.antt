pub mod Group
pub mod Taken
pub mod Lines
pub mod Spelled
pub mod Versions
pub mod View
