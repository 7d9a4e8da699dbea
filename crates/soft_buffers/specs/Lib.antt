pub mod Buffers
pub mod Shown
pub mod Runs
pub mod Parts
pub mod Flat
