pub mod Entries
pub mod Places
pub mod Changes
pub mod Views
pub mod Memories
