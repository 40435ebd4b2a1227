mod Examples
pub mod Counting
pub mod Deepening
pub mod Finding
pub mod Joins
pub mod Listing
pub mod Naming
pub mod Paths
pub mod Prefixes
pub mod Sizes
