pub mod Constellation
pub mod Demapping
pub mod Coordinate
pub mod Reception
