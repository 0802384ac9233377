pub mod Faultless
pub mod Names
