pub mod Prefix
pub mod Work
pub mod Telling
pub mod Straight
pub mod Solved
