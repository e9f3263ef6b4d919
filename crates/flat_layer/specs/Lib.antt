pub mod Memory
pub mod Layers
