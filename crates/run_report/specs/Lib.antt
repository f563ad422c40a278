pub mod Status
pub mod Line
pub mod Report
pub mod Reports
