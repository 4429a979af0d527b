pub mod Laws
pub mod Outputs
pub mod Runs
pub mod Values
pub mod Worked
pub mod Mapped
pub mod Laid
pub mod Tasks
