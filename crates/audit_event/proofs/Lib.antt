pub mod BodyLemmas
pub mod KeepingLemmas
pub mod RuleLemmas
