mod Giving
mod Viewing
mod Results
pub mod OneClaim
