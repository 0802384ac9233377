pub mod Name
pub mod Checks
pub mod Rules
pub mod Shape
pub mod Tables
pub mod Sound
