pub mod Fault
pub mod Bytes
pub mod Kept
pub mod Memory
pub mod Chain
pub mod Shelves
