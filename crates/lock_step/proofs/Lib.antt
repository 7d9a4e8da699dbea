pub mod Vectors
pub mod Quarters
pub mod StateRows
pub mod Steps
pub mod Joins
pub mod Cells
pub mod Sweeps
pub mod Bounds
