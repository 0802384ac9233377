pub mod Adding
pub mod Choices
pub mod Counted
pub mod Lengths
pub mod Lists
pub mod Marks
pub mod Messages
pub mod Numbers
pub mod Stories
pub mod Tellings
pub mod Openings
pub mod Whole
mod Refusing
