pub mod Classes
pub mod Colours
pub mod Fate
pub mod Losses
pub mod Marks
pub mod Receiver
pub mod Halts
pub mod Laws
