pub mod Mbuf
pub mod Placed
