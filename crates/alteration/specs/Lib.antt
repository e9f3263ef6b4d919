pub mod Parts
pub mod Mending
pub mod Altering
