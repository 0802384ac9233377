pub mod Shapes
pub mod Calendar
pub mod Changes
pub mod Questions
pub mod Meaning
pub mod Texts
pub mod Laws
pub mod Reading
