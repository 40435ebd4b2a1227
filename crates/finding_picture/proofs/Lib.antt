pub mod Counting
pub mod Joining
pub mod Keeping
pub mod Timing
