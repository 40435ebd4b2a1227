pub mod Endings
pub mod Faults
pub mod Files
pub mod MemoryDesk
pub mod MemorySink
pub mod Sources
pub mod Whole
