pub mod Document
pub mod M4
pub mod Steps
pub mod Laws
