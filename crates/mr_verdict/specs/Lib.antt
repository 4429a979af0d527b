pub mod Verdict
pub mod VerdictLaws
pub mod VerdictRows
pub mod Cases
pub mod FaultLaws
pub mod Headline
pub mod Items
pub mod Steps
