pub mod Prepared
pub mod Recounts
