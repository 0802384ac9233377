pub mod Forms
pub mod Schemas
pub mod Questions
