pub mod Index
pub mod Pairs
pub mod Windows
pub mod Building
