pub mod Master
pub mod Worked
pub mod Laws
pub mod Queries
pub mod Core
pub mod Looks
pub mod Promises
pub mod Index
