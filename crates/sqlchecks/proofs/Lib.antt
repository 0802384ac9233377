pub mod Choices
pub mod Firsts
pub mod Days
pub mod Numbers
pub mod Quotes
pub mod Each
