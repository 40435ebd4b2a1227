pub mod Merging
pub mod Walking
