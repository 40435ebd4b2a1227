mod Adding
mod Joining
mod Keeping
mod Pairs
mod Ranking
mod Stepping
mod Tallying
mod Unique
