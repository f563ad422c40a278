pub mod Ends
pub mod History
pub mod Line
