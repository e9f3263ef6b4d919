pub mod Significands
pub mod Orders
pub mod Buffers
pub mod Matches
pub mod Lists
