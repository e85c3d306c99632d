pub mod Days
pub mod Escapes
