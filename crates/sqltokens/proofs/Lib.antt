pub mod Texts
mod Letters
pub mod Lexemes
pub mod Ascii
pub mod Cuts
pub mod Shapes
pub mod Symbols
pub mod Whole
pub mod Functions
pub mod Told
