pub mod IppWords
pub mod RequestJobs
pub mod LogLines
pub mod LogLaws
pub mod Books
pub mod Waits
