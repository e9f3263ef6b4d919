pub mod Levels
pub mod Corrections
pub mod Asks
pub mod Fingers
