pub mod Answer
pub mod Saying
pub mod Table
pub mod TableViews
pub mod Command
pub mod Whole
pub mod App
