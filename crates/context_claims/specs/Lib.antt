pub mod Judging
pub mod Claims
