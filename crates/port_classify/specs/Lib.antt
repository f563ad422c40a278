pub mod Frame
pub mod Laws
pub mod Parts
pub mod Place
pub mod Written
