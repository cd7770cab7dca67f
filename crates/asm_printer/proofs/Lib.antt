pub mod Concrete
pub mod ForCallers
pub mod PrintedText
pub mod LineTokens
pub mod ReadLines
pub mod NoteWords
pub mod Entries
pub mod WrittenRegion
