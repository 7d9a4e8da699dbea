pub mod TrellisSteps
