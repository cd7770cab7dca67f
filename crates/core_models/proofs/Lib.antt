pub mod UnitSets
pub mod RowsSoFar
