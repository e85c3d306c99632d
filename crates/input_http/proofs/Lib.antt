pub mod FewDigits
pub mod Joining
pub mod Marks
