pub mod Escaping
pub mod Laws
pub mod Moments
pub mod Parts
