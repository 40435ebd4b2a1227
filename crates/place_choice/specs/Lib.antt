pub mod Room
pub mod Settled
