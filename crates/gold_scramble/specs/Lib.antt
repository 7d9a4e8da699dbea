pub mod Places
pub mod Sequence
pub mod Initial
pub mod Registers
pub mod Scrambling
