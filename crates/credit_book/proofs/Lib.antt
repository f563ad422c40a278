pub mod BucketLemmas
pub mod LawLemmas
pub mod Periods
