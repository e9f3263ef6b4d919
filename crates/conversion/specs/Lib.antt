pub mod Metres
pub mod Converting
pub mod Calls
