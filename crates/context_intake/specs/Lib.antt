pub mod Refusals
pub mod Contexts
pub mod Taking
pub mod Built
