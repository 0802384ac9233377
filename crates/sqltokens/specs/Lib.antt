pub use Rattle.phrase.specs.Grammar
pub use Rattle.phrase.specs.Reading
pub mod What
pub mod Lexing
pub mod Classes
pub mod Syntax
