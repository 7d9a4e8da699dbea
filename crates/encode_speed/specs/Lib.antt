pub mod Checksum
pub mod Sample
