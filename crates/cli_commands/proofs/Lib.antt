pub mod Ended
pub mod Records
