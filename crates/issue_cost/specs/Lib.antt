pub mod Sound
pub mod Timeline
pub mod Tallies
pub mod Entries
pub mod Passes
