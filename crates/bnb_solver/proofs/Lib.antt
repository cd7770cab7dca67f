pub mod Prefixes
pub mod Progress
pub mod Tellings
pub mod OneTree
pub mod Numbered
pub mod Verdicts
