pub mod Earlier
pub mod Loads
pub mod Reasons
pub mod Accounts
pub mod Runs
