pub mod Sums
pub mod Counting
pub mod Mendings
pub mod Outcomes
pub mod Rows
