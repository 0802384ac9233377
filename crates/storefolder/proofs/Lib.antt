mod CutShort
pub mod Follows
mod Forms
mod Hearing
mod Leavings
