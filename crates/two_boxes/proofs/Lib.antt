pub mod Accepted
pub mod Comparisons
pub mod Miles
pub mod Places
pub mod Steps
pub mod Traces
pub mod Turns
pub mod Whole
mod Loans
