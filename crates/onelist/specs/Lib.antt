pub mod Order
pub mod OrderRows
pub mod Explained
