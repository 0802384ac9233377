pub mod Mailing
pub mod Playing
pub mod Rounds
pub mod Recovering
pub mod Counting
pub mod BroughtSame
