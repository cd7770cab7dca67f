pub mod AnyRegs
pub mod Barred
pub mod Classes
pub mod Kin
pub mod Orders
