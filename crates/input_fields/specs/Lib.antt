pub mod Fields
pub mod Counts
pub mod Streams
pub mod ProofSomeLeft
pub mod GrantFaults
pub mod GrantFiles
pub mod GrantLines
