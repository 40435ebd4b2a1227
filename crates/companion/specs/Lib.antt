pub mod Making
pub mod OneAnswer
pub mod Picturing
pub mod Process
pub mod Program
pub mod Reported
pub mod Running
pub mod Sifted
