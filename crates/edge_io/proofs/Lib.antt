mod HeldNames
mod NamedFiles
mod SourceFacts
pub mod TakenFacts
pub mod WholeFacts
pub mod WrittenFacts
