pub mod Strips
pub mod Progress
