pub mod Orders
pub mod Parts
pub mod ReadingOrder
pub mod WindowParts
pub mod ViewLists
pub mod HalfSteps
pub mod Wholes
pub mod Stopping
