pub mod Rules
pub mod Lists
pub mod Publishing
pub mod Viewing
pub mod Replies
pub mod Staying
