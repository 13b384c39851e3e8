pub mod Range
pub mod Kind
pub mod Block
pub mod Asset
pub mod Average
pub mod Schedule
pub mod Setter
