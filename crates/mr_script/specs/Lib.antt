pub mod Lines
pub mod Scripts
pub mod Meaning
pub mod Laws
