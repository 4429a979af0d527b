pub mod Accepted
pub mod Claims
pub mod Joined
pub mod Lines
pub mod Sections
pub mod Walk
pub mod Windows
