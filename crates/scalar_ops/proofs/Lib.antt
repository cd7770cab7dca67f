pub mod LowBits
pub mod Fields
pub mod WordValues
pub mod ForCallers
pub mod Examples
