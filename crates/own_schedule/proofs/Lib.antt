pub mod FirstLeast
pub mod EntryUnits
pub mod OneMore
pub mod InOrder
