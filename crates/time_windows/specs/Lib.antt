pub mod History
pub mod Kept
pub mod Marks
pub mod Places
