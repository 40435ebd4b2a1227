pub mod Unmade
pub mod Changing
pub mod Placing
pub mod Arranging
pub mod Allowing
pub mod Showing
pub mod RightLists
pub mod Starting
pub mod Gathering
pub mod Running
pub mod Seeking
pub mod Lating
pub mod Entering
pub mod Telling
mod Leasts
mod Numbering
mod Knowing
mod Wording
mod Differing
mod Firsts
mod Deciding
mod Texting
mod OneAnswer
