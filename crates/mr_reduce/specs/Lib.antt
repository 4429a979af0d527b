pub mod Text
pub mod Files
pub mod Laws
pub mod Writing
pub mod Appending
