pub mod Limits
pub mod Meter
pub mod Profile
pub mod Whole
