pub mod ReadingFacts
pub mod OneContextFacts
