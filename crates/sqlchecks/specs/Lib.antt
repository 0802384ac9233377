pub mod Answering
pub mod Literals
pub mod Columns
pub mod Comparisons
