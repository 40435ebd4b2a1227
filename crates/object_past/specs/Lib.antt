pub mod Among
pub mod Endings
pub mod Faulted
pub mod Incarnated
pub mod Indexed
pub mod Modelled
pub mod Past
pub mod Scopes
