pub mod Faults
pub mod Reading
pub mod Looks
pub mod ProofKnown
pub mod Prelude
pub mod Shut
pub mod Kept
