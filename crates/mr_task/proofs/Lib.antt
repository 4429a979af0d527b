pub mod LeftOutLemmas
pub mod OutputLemmas
pub mod RunLemmas
pub mod SourceLemmas
pub mod ValueLaws
