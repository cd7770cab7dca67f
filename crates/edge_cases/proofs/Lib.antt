pub mod Computed
pub mod States
pub mod Adding
