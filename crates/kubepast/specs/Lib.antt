pub mod OneAnswer
pub mod PrintedHolds
pub mod Process
pub mod Program
pub mod Reported
pub mod Running
pub mod Summary
