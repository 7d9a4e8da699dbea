pub mod Sums
pub mod Adding
pub mod Codewords
pub mod Fresh
pub mod StreamCells
pub mod PartLaws
pub mod FlatCells
