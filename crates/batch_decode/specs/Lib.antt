pub mod Batches
pub mod Lists
pub mod OneDecoding
