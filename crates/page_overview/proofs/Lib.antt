pub mod OldestKept
pub mod Sums
