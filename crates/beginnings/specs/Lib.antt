pub mod Stems
pub mod Beginnings
pub mod Growing
pub mod Lines
pub mod Words
