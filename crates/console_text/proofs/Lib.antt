pub mod Cutting
pub mod Numerics
pub mod Pairs
pub mod Forms
pub mod Spelling
pub mod Room
