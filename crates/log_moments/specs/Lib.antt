pub mod Answers
pub mod Nexts
pub mod Texts
pub mod Things
pub mod Views
