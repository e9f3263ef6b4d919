pub mod Matching
pub mod Running
pub mod Agreeing
pub mod Sides
pub mod Comparing
