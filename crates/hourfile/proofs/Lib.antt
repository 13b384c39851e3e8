pub mod Instructions
pub mod Passing
pub mod Trades
pub mod Entries
pub mod Openings
pub mod Outcomes
pub mod Unique
