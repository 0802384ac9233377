pub mod Digests
pub mod Growing
pub mod Leading
pub mod Listed
pub mod Lives
pub mod Seen
pub mod Telling
