pub mod Brought
pub mod Dripping
pub mod Limits
pub mod Rates
pub mod Sums
