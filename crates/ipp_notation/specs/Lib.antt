pub mod Fronts
pub mod Lines
