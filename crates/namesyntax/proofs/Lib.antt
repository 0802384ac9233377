pub mod LawsNames
pub mod Parsed
pub mod Shorter
