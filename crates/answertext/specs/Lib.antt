pub mod Answers
pub mod Appending
pub mod Lines
pub mod Outlets
pub mod Sinks
