pub mod Alike
pub mod Alone
pub mod Judging
pub mod Leading
pub mod Sorting
pub mod Listing
pub mod Upholding
pub mod JoinedSame
pub mod Verdicts
mod Refusing
