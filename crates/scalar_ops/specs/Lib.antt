pub mod Flags
pub mod Scalar
pub mod Halves
pub mod Words
