pub mod Durable
pub mod Log
pub mod Errors
pub mod Calls
