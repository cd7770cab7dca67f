pub mod Faults
pub mod Files
pub mod Host
pub mod Known
pub mod Memory
pub mod Reading
pub mod Rows
pub mod Source
