pub mod Words
pub mod Placed
pub mod Outcome
pub mod Reading
pub mod PlacementFaults
