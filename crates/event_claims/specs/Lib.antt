pub mod Given
pub mod Cases
pub mod Views
pub mod Verdicts
pub mod Words
pub mod Standing
pub mod Decided
pub mod Lines
