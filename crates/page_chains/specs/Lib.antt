pub mod Chains
pub mod Finding
pub mod Following
pub mod Joints
pub mod Links
pub mod Pages
pub mod Parts
