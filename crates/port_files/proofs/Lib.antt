pub mod Closings
pub mod Spans
pub mod Places
pub mod Creations
pub mod Shuts
