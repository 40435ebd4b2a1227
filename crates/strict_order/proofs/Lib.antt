pub mod Arranging
pub mod Crossing
pub mod Finding
pub mod Judging
pub mod Numbering
pub mod Raising
