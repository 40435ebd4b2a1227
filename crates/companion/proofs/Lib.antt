pub mod AskedFacts
pub mod OneAnswerFacts
pub mod PageFacts
pub mod ReportedFacts
pub mod RunFacts
pub mod PicturingFacts
pub mod ProcessFacts
