pub mod FileFaults
