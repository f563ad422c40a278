pub mod Growing
pub mod Bytes
pub mod Splitting
pub mod Lines
pub mod Plainness
