pub mod Refusal
pub mod Keys
pub mod KeyViews
pub mod InTurn
pub mod ClassNames
pub mod Core
pub mod Plain
pub mod Reading
