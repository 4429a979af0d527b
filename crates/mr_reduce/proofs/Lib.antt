pub mod TextLemmas
pub mod FileLemmas
pub mod WritingLemmas
