pub mod Key
pub mod Fault
pub mod Line
pub mod Report
