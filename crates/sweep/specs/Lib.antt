pub mod Walk
pub mod Sweeping
pub mod Inner
