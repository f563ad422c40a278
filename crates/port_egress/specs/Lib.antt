pub mod Run
pub mod Output
pub mod Sender
pub mod Egress
