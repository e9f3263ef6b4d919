pub mod Pointwise
pub mod Calling
pub mod Matching
pub mod Running
pub mod Agreeing
