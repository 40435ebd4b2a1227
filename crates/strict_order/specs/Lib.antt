pub mod Judged
pub mod Latest
pub mod Moments
pub mod Printed
pub mod Strict
pub mod Things
