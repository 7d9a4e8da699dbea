pub mod Cutting
pub mod Plans
pub mod Shape
pub mod Shown
