pub mod Histories
pub mod Rings
