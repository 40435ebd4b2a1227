pub mod Alike
pub mod BlameFacts
pub mod CanFacts
pub mod OneTextFacts
pub mod Floating
pub mod SightFacts
pub mod TellingFacts
pub mod StateFacts
