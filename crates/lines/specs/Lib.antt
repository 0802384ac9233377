pub mod Script
pub mod Reading
pub mod Line
pub mod Number
pub mod Laws
