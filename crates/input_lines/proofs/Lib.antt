pub mod Inputs
pub mod Taken
