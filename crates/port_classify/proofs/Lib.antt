pub mod Choosing
pub mod Leasts
pub mod ReadBack
