pub mod Bodies
pub mod Classes
pub mod Deciding
pub mod Placing
pub mod Statements
