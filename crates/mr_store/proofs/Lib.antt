pub mod Steps
pub mod Parts
pub mod Buffers
