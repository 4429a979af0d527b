pub mod HistoryLines
pub mod Histories
pub mod Answers
pub mod Parsing
pub mod Reading
