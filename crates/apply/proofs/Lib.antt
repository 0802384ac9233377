mod Turned
mod Fine
mod Transacted
mod Reading
mod Widths
mod Entries
mod Answered
mod Refusing
