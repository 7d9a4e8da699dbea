pub mod Batch
pub mod Jobs
pub mod Reading
pub mod Parts
pub mod Runners
