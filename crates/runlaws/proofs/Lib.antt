pub mod Going
pub mod Seats
