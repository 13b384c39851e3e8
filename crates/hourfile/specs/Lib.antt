pub mod Print
pub mod Fault
pub mod Lines
pub mod Call
pub mod Outcome
pub mod Cursor
pub mod Run
