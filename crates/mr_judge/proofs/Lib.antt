pub mod Agreements
pub mod Faults
mod FromLemmas
pub mod GrammarLemmas
pub mod JudgeLemmas
pub mod JudgedRows
pub mod JudgingLemmas
pub mod KindLemmas
pub mod LineLemmas
pub mod MeterLemmas
pub mod OutputLemmas
pub mod PartLemmas
mod ReadingLemmas
pub mod RemainderLemmas
pub mod RestLemmas
pub mod VerdictLemmas
