mod BankRegs
mod Naming
mod Pairs
mod Reading
pub mod ForCallers
