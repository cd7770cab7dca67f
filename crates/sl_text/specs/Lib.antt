pub mod Cut
pub mod Lines
pub mod Tokens
pub mod Numerals
