pub mod Expansion
pub mod Region
pub mod Slices
pub mod Filled
pub mod Source
pub mod Spelled
pub mod Words
pub mod Views
