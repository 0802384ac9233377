pub mod Counted
pub mod Replays
pub mod Rising
pub mod Items
pub mod Listing
pub mod Runs
pub mod Telling
mod Refusing
