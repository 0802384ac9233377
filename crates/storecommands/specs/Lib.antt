pub mod CommandLine
pub mod Dot
pub mod Given
pub mod Text
