pub mod Closed
pub mod Endings
pub mod Versions
pub mod Ranges
