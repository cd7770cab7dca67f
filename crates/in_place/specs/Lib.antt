pub mod Clear
pub mod InPlace
