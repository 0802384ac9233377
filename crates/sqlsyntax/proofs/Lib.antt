pub mod LawsShared
pub mod LawsQuery
pub mod LawsTransaction
pub mod Dated
pub mod Spelled
pub mod Renamed
pub mod Spells
