pub mod Reads
pub mod Key
pub mod Index
pub mod Items
