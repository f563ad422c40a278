pub mod FreeCount
pub mod FreeList
pub mod Passes
