pub mod Spacing
pub mod Transactions
pub mod Again
pub mod Named
