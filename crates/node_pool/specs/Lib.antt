pub mod Flat
pub mod Kept
pub mod Leaves
pub mod Placing
pub mod Pooled
pub mod Subtrees
pub mod Within
