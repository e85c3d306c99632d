pub mod Hosts
pub mod Spelled
