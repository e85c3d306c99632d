pub mod Actions
pub mod Asking
pub mod Backups
pub mod Lines
pub mod OwnerRequests
pub mod Printed
pub mod Saying
pub mod ProofTaking
