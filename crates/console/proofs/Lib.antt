mod Lines
mod Shortening
