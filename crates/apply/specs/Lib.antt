pub mod Reads
pub mod Executing
pub mod View
pub mod Asking
pub mod Once
pub mod Laws
