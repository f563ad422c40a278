pub mod Filling
pub mod Firsts
pub mod Giving
pub mod Opened
pub mod OneWay
pub mod ReadBack
