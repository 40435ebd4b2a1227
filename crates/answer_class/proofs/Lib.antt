pub mod Filled
pub mod Clocks
