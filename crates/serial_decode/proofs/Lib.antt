pub mod StripCells
pub mod StripParts
pub mod WindowRuns
