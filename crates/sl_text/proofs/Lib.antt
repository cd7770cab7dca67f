pub mod ForCallers
pub mod CutLemmas
pub mod LineLemmas
pub mod TokenLemmas
pub mod WordLemmas
pub mod NumeralLemmas
