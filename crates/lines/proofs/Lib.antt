pub mod Numbers
pub mod Scripts
pub mod Lines
pub mod Parts
pub mod Ways
pub mod Texts
