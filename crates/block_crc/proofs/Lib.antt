pub mod Linear
pub mod Chunks
