pub mod Addresses
pub mod Commands
pub mod Faults
pub mod ServedWords
pub mod Statuses
pub mod Visitors
pub mod Words
