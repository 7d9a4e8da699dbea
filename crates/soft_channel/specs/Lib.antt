pub mod Noise
pub mod Channel
pub mod TrialPayload
pub mod Words
