pub mod Agrees
pub mod Sorted
