pub mod LawsSchema
