pub mod Ending
pub mod Forms
pub mod Hearing
pub mod Torn
