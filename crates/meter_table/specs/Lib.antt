pub mod Asked
pub mod Log
pub mod Cell
pub mod Kept
pub mod Seats
pub mod Logs
pub mod Laws
pub mod Gathered
