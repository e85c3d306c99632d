pub mod Digits
pub mod Leaving
pub mod LineLemmas
pub mod RecordLemmas
pub mod FaultLemmas
