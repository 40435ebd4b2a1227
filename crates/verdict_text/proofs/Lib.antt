pub mod NumberTexts
pub mod CutFacts
pub mod PlacedFacts
pub mod BegunFacts
pub mod OneFault
pub mod FaultFacts
