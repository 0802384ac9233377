pub mod Versions
pub mod ByKey
pub mod Committing
pub mod Answering
pub mod WorkedRows
pub mod Unanswered
