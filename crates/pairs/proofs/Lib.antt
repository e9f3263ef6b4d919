pub mod Sums
pub mod Square
pub mod Grids
pub mod Listed
