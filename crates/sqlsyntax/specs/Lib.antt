pub mod Shared
pub mod Queries
pub mod Transactions
pub mod Spelling
