pub mod OfPlans
pub mod Walk
mod Computed
pub mod BlockSizes
pub mod CutBlocks
pub mod WholeBits
mod BlockStarts
mod BlockShares
mod ToCut
mod CarriedWhole
mod PackedAgain
