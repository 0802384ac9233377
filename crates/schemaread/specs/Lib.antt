pub mod Schemas
pub mod Laws
