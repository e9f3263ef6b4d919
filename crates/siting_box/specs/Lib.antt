pub mod Denials
pub mod Contents
pub mod Boxes
pub mod Searching
pub mod Stored
pub mod Fresh
pub mod Calls
