pub mod InTurn
pub mod Steps
pub mod Names
pub mod ClassEntries
pub mod UnitNames
pub mod Sound
pub mod PlainCore
pub mod ForCallers
