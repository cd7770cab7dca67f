pub mod Flows
pub mod ItemSets
