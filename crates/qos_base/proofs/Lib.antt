pub mod Divisors
pub mod Scaling
