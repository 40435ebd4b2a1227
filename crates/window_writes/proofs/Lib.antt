pub mod TurnGathering
pub mod TurnShowing
pub mod TurnLines
pub mod TurnSorting
