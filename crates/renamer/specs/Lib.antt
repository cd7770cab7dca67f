pub mod Faithful
pub mod Outcome
pub mod Renamings
pub mod WellPosed
pub mod Written
