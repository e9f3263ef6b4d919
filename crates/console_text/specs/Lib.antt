pub mod Words
pub mod Numerals
pub mod Hexadecimal
pub mod Fields
pub mod Commands
pub mod Answers
