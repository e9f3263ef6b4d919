pub mod Moves
pub mod Weights
pub mod Ordered
pub mod Spread
pub mod Growth
pub mod Shrinking
pub mod Packed
