pub mod LineLemmas
pub mod NumberLemmas
pub mod ReadingLemmas
