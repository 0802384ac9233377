pub mod Adding
pub mod Numbered
