pub mod Arch
pub mod Steps
pub mod Language
pub mod Symbols
pub mod SymbolViews
