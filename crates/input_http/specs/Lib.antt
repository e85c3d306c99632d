pub mod Limits
pub mod Words
pub mod Targets
pub mod Texts
pub mod Origins
