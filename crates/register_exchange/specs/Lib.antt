pub mod AsGood
pub mod Lost
