pub mod ForCallers
pub mod Left
pub mod Naming
pub mod Taking
