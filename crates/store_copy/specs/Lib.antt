pub mod All
pub mod Copies
pub mod Parts
pub mod Slices
pub mod Sources
pub mod ProofParts
pub mod ProofRows
pub mod ProofSavepoints
