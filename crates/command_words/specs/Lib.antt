pub mod Asking
pub mod Command
