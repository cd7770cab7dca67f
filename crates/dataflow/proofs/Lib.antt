pub mod Above
pub mod FewSources
pub mod LastSteps
pub mod Sets
