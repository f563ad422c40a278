pub mod Finding
pub mod Quotients
