pub mod Lists
pub mod Zips
pub mod RelaySteps
pub mod Taking
pub mod Ended
pub mod AnswerSteps
pub mod Crossing
