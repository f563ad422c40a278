pub mod Written
pub mod Text
pub mod View
pub mod Plain
