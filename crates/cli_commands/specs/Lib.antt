pub mod Faults
pub mod Grants
pub mod Outcomes
pub mod Runs
