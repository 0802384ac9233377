-- Lemmas on lists, keys, orders and rows, which the laws of versions use too; then those of this crate alone.
pub mod Orders
pub mod Keys
pub mod Members
pub mod Anys
pub mod Sorted
pub mod RowFacts
pub mod Contents
pub mod SameRow
pub mod Least
mod Inserted
mod Listed
mod Recut
mod Updated
mod Deleted
mod Tests
mod Runs
mod Differences
mod Touches
mod Orphaned
mod Referring
mod Transacted
mod Losing
mod Suspected
mod Parts
