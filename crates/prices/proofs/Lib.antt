pub mod Ranges
pub mod Filling
pub mod Pricing
pub mod Arrays
