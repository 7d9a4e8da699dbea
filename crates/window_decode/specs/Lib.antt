pub mod Lanes
pub mod Recursions
pub mod Metrics
pub mod Ranges
