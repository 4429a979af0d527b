pub mod Walks
pub mod Lines
pub mod Numbers
pub mod Meanings
pub mod Spelled
