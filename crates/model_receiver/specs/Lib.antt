pub mod Borders
pub mod Paths
pub mod Windows
pub mod HalfIteration
pub mod Decoding
pub mod SoftCells
pub mod Limits
pub mod TransportBlocks
