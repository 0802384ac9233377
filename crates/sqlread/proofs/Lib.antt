pub mod Each
pub mod Copies
pub mod Lists
pub mod Numbers
pub mod Days
pub mod Periods
pub mod Refusals
pub mod Saying
pub mod Reading
mod Refusing
