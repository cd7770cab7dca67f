pub mod Document
pub mod Arm64
pub mod Steps
pub mod Laws
