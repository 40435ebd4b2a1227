pub mod Explaining
pub mod Leaving
pub mod Narrowing
