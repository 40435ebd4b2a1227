pub mod Bytes
pub mod Grammar
pub mod Meeting
pub mod Readings
