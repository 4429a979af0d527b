pub mod BorderLemmas
pub mod ClaimLemmas
pub mod JoinedLemmas
pub mod LineKeyLemmas
pub mod SectionLemmas
pub mod WalkLemmas
pub mod WindowsLemmas
