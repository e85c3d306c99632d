pub mod Charges
pub mod Reading
