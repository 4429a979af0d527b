pub mod Merged
pub mod Laws
pub mod Worked
pub mod Bytes
pub mod Reduction
pub mod Taking
pub mod Distinct
