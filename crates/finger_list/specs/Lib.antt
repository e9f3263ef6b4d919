pub mod Entries
pub mod Linking
pub mod Writing
pub mod Hands
pub mod Walking
pub mod Changes
pub mod Views
pub mod Memories
