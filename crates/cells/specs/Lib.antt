pub mod Lives
pub mod Feeds
pub mod Publishing
pub mod Runs
