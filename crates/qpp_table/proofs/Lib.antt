mod FoundRows
pub mod QppWindows
mod Remainders
mod SizesByRange
mod Units
mod WalkSteps
