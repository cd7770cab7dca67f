pub mod Folds
pub mod HeightLemmas
pub mod NeedLemmas
pub mod RecountLemmas
pub mod SlotLemmas
