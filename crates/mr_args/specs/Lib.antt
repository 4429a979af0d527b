pub mod SkipList
pub mod Asked
pub mod Statuses
