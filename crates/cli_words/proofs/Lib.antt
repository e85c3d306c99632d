pub mod Options
pub mod Placed
