pub mod Access
pub mod Info
pub mod TableIsa
pub mod CounterSteps
pub mod LawfulTable
