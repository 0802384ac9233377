pub mod Turns
pub mod Placing
pub mod Taking
pub mod Parts
pub mod Seeing
pub mod Appending
pub mod Staying
mod Refusing
