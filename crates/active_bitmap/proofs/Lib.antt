pub mod WordLemmas
pub mod NextLemmas
pub mod LevelLemmas
