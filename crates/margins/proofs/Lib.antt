pub mod Lists
pub mod Ordering
pub mod Payments
