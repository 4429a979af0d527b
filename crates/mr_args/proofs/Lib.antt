pub mod SkipLists
