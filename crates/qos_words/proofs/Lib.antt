pub mod Apart
pub mod Endings
pub mod Six
pub mod Terms
