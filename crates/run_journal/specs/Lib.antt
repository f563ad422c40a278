pub mod Pace
pub mod Pacer
pub mod Schedule
pub mod Paced
pub mod Laws
pub mod PortRun
pub mod Advancing
