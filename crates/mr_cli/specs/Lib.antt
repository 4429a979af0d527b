pub mod Program
pub mod Parsed
pub mod Statuses
pub mod Shown
