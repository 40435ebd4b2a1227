pub mod EscapingFacts
pub mod Positions
