pub mod Calendar
pub mod Drawing
pub mod Escaping
pub mod Frame
pub mod Limits
pub mod Moments
pub mod Pieces
