pub mod Alone
pub mod Gathering
pub mod ListLemmas
