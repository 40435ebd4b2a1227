pub mod Counting
pub mod Following
pub mod Gathering
pub mod Lining
pub mod OneAnswer
pub mod Placing
pub mod Settling
pub mod Timing
