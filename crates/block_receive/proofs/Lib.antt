pub mod LawfulShapes
pub mod StreamLengths
pub mod BlockResults
pub mod TriedBlocks
pub mod ShapedBlocks
pub mod Deliveries
pub mod UnderWay
