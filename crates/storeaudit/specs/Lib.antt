pub mod Audit
pub mod Found
