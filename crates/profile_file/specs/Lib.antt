pub mod Loaded
pub mod Reading
