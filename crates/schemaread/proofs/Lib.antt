pub mod Declared
pub mod OneSchema
pub mod SayingSchemas
