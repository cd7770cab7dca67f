pub mod StateCode
pub mod Fits
pub mod Moves
