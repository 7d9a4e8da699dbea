pub mod Receptions
pub mod Decoders
pub mod Held
pub mod Tries
pub mod Progress
