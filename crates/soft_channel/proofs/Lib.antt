mod Drawing
pub mod Lengths
mod Pieces
mod Quotients
