pub mod CommandLines
pub mod CommandRows
pub mod Comparing
pub mod Groups
pub mod Judging
pub mod Playing
pub mod Reporting
pub mod Scripts
