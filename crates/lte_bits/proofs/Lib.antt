pub mod Chunks
mod PackedBytes
pub mod Pushes
pub mod UnpackedParts
pub mod Unpacking
