pub mod OneAnswerFacts
pub mod PrintedHoldsFacts
pub mod ReportedFacts
pub mod RunFacts
pub mod MadeFacts
pub mod ProcessFacts
