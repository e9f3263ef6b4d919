pub mod Roughness
pub mod Laws
