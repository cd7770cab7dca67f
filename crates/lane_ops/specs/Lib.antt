pub mod Lanes
pub mod Vector
