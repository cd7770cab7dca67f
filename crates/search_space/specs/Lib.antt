pub mod Searchable
pub mod Next
pub mod Trials
pub mod Going
pub mod Best
pub mod Bound
pub mod Levels
