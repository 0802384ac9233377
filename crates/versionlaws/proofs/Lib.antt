mod Lasting
mod Committed
mod Kept
mod Found
mod Answered
mod Existing
mod Unanswered
mod Keyed
