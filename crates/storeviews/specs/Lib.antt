pub mod Listing
pub mod Copies
pub mod Showing
