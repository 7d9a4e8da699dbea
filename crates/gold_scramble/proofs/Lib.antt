mod Continuing
mod Digits
mod Keystream
mod Moving
mod Numbers
mod PlaceLists
mod Sequences
mod Starting
mod Stepping
pub mod Twice
mod Widening
pub mod Words
