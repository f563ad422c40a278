pub mod Ended
pub mod Account
pub mod Run
pub mod Command
pub mod Causes
pub mod Piece
