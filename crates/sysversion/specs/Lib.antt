pub mod Days
pub mod Lists
pub mod Open
pub mod Reads
pub mod Versions
