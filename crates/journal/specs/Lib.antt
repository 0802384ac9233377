pub mod Blocks
pub mod Digests
pub mod Parts
pub mod Ranges
pub mod Spelling
