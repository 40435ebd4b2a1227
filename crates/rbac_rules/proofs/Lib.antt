pub mod Accounts
pub mod Choosing
pub mod Rules
pub mod Texts
