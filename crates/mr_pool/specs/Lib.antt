pub mod Endings
pub mod Outcomes
pub mod Accounts
