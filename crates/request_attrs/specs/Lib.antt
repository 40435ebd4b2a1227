pub mod Attributes
pub mod Paths
pub mod Queries
pub mod Refusals
pub mod Requests
pub mod Shown
