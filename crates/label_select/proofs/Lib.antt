pub mod Complete
pub mod Fronts
pub mod Sound
pub mod Steps
