pub mod TagLemmas
pub mod Buttons
