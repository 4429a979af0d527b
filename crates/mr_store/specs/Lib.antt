pub mod Devices
pub mod Reads
pub mod Memory
