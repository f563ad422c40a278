pub mod Divisor
pub mod Reason
pub mod Time
