mod Texts
pub mod Views
mod Conversions
mod Depths
