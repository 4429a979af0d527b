pub mod GroupLemmas
pub mod LawLemmas
pub mod GatherLemmas
pub mod TakingLemmas
pub mod BitLemmas
