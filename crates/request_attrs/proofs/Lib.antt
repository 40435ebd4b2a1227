pub mod CauseLemmas
pub mod PathLemmas
pub mod QueryLemmas
