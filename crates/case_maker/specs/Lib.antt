pub mod Random
pub mod Exchanges
pub mod Bodies
pub mod Event
pub mod Drawn
pub mod Cluster
pub mod Case
