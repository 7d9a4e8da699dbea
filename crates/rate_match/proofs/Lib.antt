pub mod SizeSteps
pub mod Need
pub mod FitTest
pub mod BlockNumbers
pub mod Matchings
pub mod Walked
pub mod CursorSteps
pub mod ColumnRuns
pub mod Parts
pub mod BlockStreams
pub mod Lengths
pub mod EachSending
pub mod CodedPayload
mod CutPayload
