pub mod Dscp
pub mod Entry
