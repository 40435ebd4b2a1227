pub mod Padding
pub mod Chains
pub mod Present
pub mod CaseFacts
