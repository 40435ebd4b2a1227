mod OutcomeOrder
mod OutcomeClaims
mod OutcomePlacing
mod OutcomeTrees
mod OutcomeSharing
mod FindingShown
pub mod JudgingFacts
mod StrictlyFacts
mod AskingFacts
pub mod VerifyingFacts
mod ReportFacts
pub mod RefusedFacts
pub mod OnceFacts
