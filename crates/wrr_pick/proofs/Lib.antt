pub mod Multiples
pub mod Picks
