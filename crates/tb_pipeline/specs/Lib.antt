pub mod Relays
pub mod Hands
pub mod Completions
