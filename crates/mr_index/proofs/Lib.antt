pub mod PairLemmas
pub mod NumberedLemmas
pub mod WorkLemmas
pub mod SizeLemmas
pub mod JoinLemmas
pub mod GrowLemmas
pub mod WindowLemmas
