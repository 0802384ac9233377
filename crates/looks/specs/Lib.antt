pub mod Bare
pub mod Objects
pub mod Outcomes
pub mod Separated
