pub mod JobLines
pub mod Lists
pub mod Pages
pub mod Questions
pub mod Quotas
pub mod Stations
