pub mod Preorders
pub mod Tallies
pub mod Classes
pub mod Rules
