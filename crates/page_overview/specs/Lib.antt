pub mod Lines
pub mod Overviews
pub mod Pages
pub mod ProofOldest
pub mod Surveys
