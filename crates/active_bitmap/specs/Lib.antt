pub mod NextActive
pub mod Laws
pub mod Words
pub mod Levels
