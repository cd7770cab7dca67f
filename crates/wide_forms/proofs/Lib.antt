pub mod WideWords
pub mod WideLanguage
pub mod ForCallers
