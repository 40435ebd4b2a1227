pub mod HeldFacts
pub mod LineFacts
pub mod ReaderFacts
