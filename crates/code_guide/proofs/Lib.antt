pub mod FoundTexts
pub mod CodeFacts
