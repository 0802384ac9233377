pub mod Faults
pub mod Audited
pub mod View
pub mod Upheld
pub mod Joined
pub mod Verdict
