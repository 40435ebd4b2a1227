pub mod Frames
pub mod Encoding
pub mod Decoding
pub mod Sound
pub mod Packs
pub mod StoredBytes
pub mod Showing
