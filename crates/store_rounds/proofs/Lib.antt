pub mod OnDisk
pub mod LookLemmas
pub mod FoundJobs
pub mod EmptyTexts
pub mod CacheLemmas
pub mod KeptLemmas
