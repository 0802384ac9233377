pub mod Counts
pub mod Deciding
pub mod Digests
pub mod Places
pub mod Settled
pub mod Whole
pub mod Machine
pub mod Pages
