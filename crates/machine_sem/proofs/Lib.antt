pub mod ForCallers
pub mod Maps
pub mod Entries
pub mod Undo
pub mod Fitting
pub mod Stepping
pub mod Wrapped
