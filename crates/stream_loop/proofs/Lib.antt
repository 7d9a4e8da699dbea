pub mod HandedOn
pub mod Answered
pub mod StreamSteps
pub mod Openings
