pub mod Ordering
pub mod Growing
pub mod Walking
pub mod Living
