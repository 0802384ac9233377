pub mod Sorting
pub mod Conditions
pub mod Naming
pub mod Answered
