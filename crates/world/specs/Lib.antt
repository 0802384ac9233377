pub mod View
pub mod Run
pub mod Once
pub mod Given
pub mod Deeds
pub mod Resumed
