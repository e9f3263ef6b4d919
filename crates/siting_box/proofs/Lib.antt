pub mod Chunks
pub mod Counting
pub mod Places
pub mod Plans
pub mod Readings
pub mod Searches
pub mod Totals
