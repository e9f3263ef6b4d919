pub mod Order
pub mod Tally
pub mod Exact
pub mod Whole
pub mod Patterns
pub mod Float
pub mod Meaning
