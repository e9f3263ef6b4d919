pub mod Exponents
pub mod Tallying
