pub mod ForCallers
pub mod IssueRule
pub mod TallyLemmas
pub mod EntryLemmas
pub mod SoundRows
pub mod PassLaws
