pub mod CommandLines
mod Dots
mod Texts
