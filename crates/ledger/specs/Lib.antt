pub mod Sums
pub mod Imbalance
pub mod Trade
pub mod Call
pub mod Ledger
pub mod Law
