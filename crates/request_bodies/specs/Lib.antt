pub mod Agreeing
pub mod Asked
pub mod Patched
pub mod Requests
pub mod Right
