pub mod Histories
pub mod Standings
pub mod Posts
pub mod Words
pub mod Scenes
pub mod Laters
pub mod Playing
pub mod Making
