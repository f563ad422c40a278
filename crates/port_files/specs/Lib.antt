pub mod Change
pub mod Among
pub mod Outs
