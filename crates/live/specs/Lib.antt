pub mod Letters
pub mod Errands
pub mod Taken
pub mod Saying
pub mod Stations
