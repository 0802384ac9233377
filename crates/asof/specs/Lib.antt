pub mod Asking
pub mod Named
