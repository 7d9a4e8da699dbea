pub mod Decoding
pub mod Receivers
