pub mod Multiple
pub mod RoundRobin
