pub mod Fill
pub mod Faults
pub mod First
pub mod Format
pub mod Given
pub mod Heads
pub mod Reads
pub mod Written
