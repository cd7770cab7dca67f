pub mod StateText
pub mod Steps
pub mod Views
pub mod Running
