pub mod Edges
pub mod Example
