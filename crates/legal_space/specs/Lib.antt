pub mod Problems
pub mod Timed
