mod Imports
pub mod Found
pub mod Places
pub mod Printable
