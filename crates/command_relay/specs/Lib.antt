pub mod Conversions
pub mod HardBits
pub mod Channel
pub mod Points
pub mod Scramble
pub mod Upgrade
