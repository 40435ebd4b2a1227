pub mod Forms
pub mod Levels
pub mod Matches
