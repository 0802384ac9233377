pub mod Choices
pub mod Digests
pub mod Frames
pub mod Listed
pub mod Words
mod Refusing
