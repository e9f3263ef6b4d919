pub mod Terrain
pub mod Window
pub mod Alike
pub mod Nearest
pub mod Sizes
