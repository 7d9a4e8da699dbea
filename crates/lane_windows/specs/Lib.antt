pub mod Borders
pub mod Halves
pub mod Lanes
pub mod Progress
