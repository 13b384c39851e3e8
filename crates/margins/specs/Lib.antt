pub mod Side
pub mod Order
pub mod Energy
pub mod Payment
