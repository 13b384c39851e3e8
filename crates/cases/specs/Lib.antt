pub mod Worked
pub mod Client
pub mod Cases
pub mod Told
pub mod Run
